pub mod Number  -- the number that begins at an offset of a layout
pub mod Laws  -- what is proved of the definitions
pub mod Inner  -- vocabulary of private contracts and of loops, with its laws
