pub mod Ownership  -- the frames of a range that the desk names
pub mod Step  -- the steps of a layout, and what a reading of a list gives
pub mod StepReading  -- reading the steps of a layout, with the refusals at each number
pub mod Layout  -- reading a whole layout, and checking it for a device and the range that the desk names
pub mod LayoutReader  -- the layout reader: a layout and an offset in it
pub mod ReferenceMachine  -- the steps of a layout done on a plain memory
pub mod Laws  -- what is proved of the definitions
pub mod Inner  -- vocabulary of private contracts and of loops, with its laws
pub mod Examples  -- 01's statements marked P, and examples that a theorem's premise can be met
