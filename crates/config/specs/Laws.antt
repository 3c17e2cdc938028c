pub mod TakesWords  -- a phase that takes words is not stopped, and gathers its bytes
pub mod OthersStay  -- a word to a register leaves the others; what leaves the flags
