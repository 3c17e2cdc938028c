pub mod WorkedLayouts  -- 01's worked streams: the empty layout's 48 bytes, and a frame outside the range
