pub mod StoreBounds  -- every store finds its frame in the memory; the buffer's words from L on stay
pub mod UntouchedFrames  -- a load changes no byte of a frame that none of its stores names
pub mod Pieces  -- a run by pieces, a stopped record and a refused load
pub mod LoadKeeps  -- every load leaves a consistent record; 01's load by pieces; what a stop leaves
pub mod WordRun  -- four bytes are a word: what they do is what the control machine makes of it
