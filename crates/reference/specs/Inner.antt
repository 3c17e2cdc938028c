pub mod MachineTurns  -- the reference machine frame by frame and step by step, as the code does it
pub mod StepList  -- a list of steps done one by one
