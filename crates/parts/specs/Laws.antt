pub mod Cases  -- what holds in both cases of a test holds of what the test picks
pub mod ColumnLookup  -- the two lookups one column at a time, and the fields of an address
pub mod FramePlacing  -- a placed frame reads back, every other frame keeps its bytes, the memory its length
pub mod ColumnRoundTrip  -- frame number to frame address and back, over any columns in order
pub mod KnownParts  -- a figure at a device number, where it names a part and where it names none
