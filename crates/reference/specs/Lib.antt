pub mod Applied  -- a layout applied to a memory, with its refusals
pub mod Laws  -- what is proved of the definitions
pub mod Inner  -- vocabulary of private contracts and of loops, with its laws
