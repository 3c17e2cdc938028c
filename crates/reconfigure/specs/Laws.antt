pub mod FillingFrame  -- where the words of one frame lead
pub mod FrameDataPacket  -- where an FDRI packet leads, with its headers and its auto CRC word
pub mod StoredFrames  -- where the frames of an FDRI packet lead
pub mod WordsReach  -- words that a load takes lead from a record and a memory to others
pub mod Headers  -- what the control machine takes a stream's headers for
pub mod MultiFrameWrite  -- where two zero words to MFWR lead
pub mod RecordView  -- what a stream relies on between two packets
pub mod StepEffects  -- where the packets of a step lead, and those of a list of steps
pub mod Sync  -- where the two words before the packets lead
pub mod WholeLoad  -- where a whole stream leads
pub mod RegisterPackets  -- where a command, a frame address and a check word lead
