pub mod Compiled  -- a layout compiled into an output, with its refusals
pub mod Inner  -- vocabulary of private contracts and of loops, with its laws
pub mod Examples  -- 01's statements marked P, and examples that a theorem's premise can be met
