pub mod Laws  -- what is proved of the definitions that the must-fail edits change
