pub mod Groups  -- a number read over the groups before it, for the loop that reads group by group
pub mod ReadAnswers  -- the number of a number's refusal
