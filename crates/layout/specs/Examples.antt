pub mod MalformedLayouts  -- a layout that each of 41 to 47 is given for
pub mod OutsideRange  -- 01's worked layout that names a frame outside the range
