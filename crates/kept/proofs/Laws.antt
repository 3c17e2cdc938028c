pub mod OwnedRuns  -- a run of one frame or more is owned where its first frame is, and the rest
pub mod LayoutTurns  -- one turn of the reader's loops over targets and steps, by the count that is left
pub mod FramesPlaced  -- bytes copied one by one, and frames placed one by one, by the count that is left
pub mod CursorWords  -- words of frame data, written and fed one after the other from a cursor on
pub mod CursorPackets  -- packets written from a cursor on: the output and the cursor after them
pub mod ReadSteps  -- the packets of what reading gives, a step or a refusal
pub mod OffsetTurns  -- a turn of the load at an offset of the bytes that are lent
pub mod Digits  -- a digit that fits, by its bounds
