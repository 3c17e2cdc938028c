pub mod AnswerCases  -- each answer of a reconfiguration, by what leads to it
pub mod Corollaries  -- stream after stream, and what follows a stream
pub mod Demand3  -- demand 3: the compiled stream, loaded, does the layout's steps and nothing else
pub mod FromPowerOn  -- demand 3's premise is met by power-on's record of every part
pub mod PromiseKept  -- a reconfiguration keeps its promise
pub mod Throughout  -- at every byte of a stream each frame outside the range has the bytes that it had
