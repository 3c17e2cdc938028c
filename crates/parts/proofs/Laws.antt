pub mod PrintedFigures  -- the table against the figures that 01 and 001's Table 7 print
pub mod Figures  -- a device number of at most 7 names a part; L, F and the memory's length at the number
pub mod FrameNumbers  -- a part's columns are in order and have F frames, so number and address give each other
