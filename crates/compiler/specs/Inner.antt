pub mod FrameDataWords  -- the words of frame data, and the next of them
pub mod PacketWriting  -- words and packets that a writer wrote: the writer after them
pub mod StepPackets  -- the packets of a list of steps one by one
pub mod WholeStream  -- a whole stream written into an output
