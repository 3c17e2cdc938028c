pub mod StopsAndRefusals  -- the table of 01 and 02: the number of each stop and of each refusal
pub mod AnswerNumbers  -- the number of an answer, and the value told beside it
