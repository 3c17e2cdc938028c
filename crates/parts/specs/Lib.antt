pub mod Table  -- the eight parts by device number, and the figures that follow from R, C and B
pub mod Columns  -- the columns of a part in the order in which its frames are numbered
pub mod FrameAddress  -- frame number to frame address and back, with their refusals
pub mod FrameMemory  -- the memory of a part: frames of 4·L bytes, one after the other
pub mod Laws  -- what is proved of the definitions
pub mod Inner  -- vocabulary of private contracts and of loops, with its laws
pub mod Examples  -- 01's statements marked P, and examples that a theorem's premise can be met
