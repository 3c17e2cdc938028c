pub mod Laws  -- what is proved of the definitions that the must-fail edits change
pub mod Walk  -- how a function is walked by hand whose parameters are read and never written
pub mod Owned  -- what a reader owns, for such walks
pub mod Apart  -- the walk of functions that take a reader apart; the prover needs none of the three today
