pub mod PhaseTests  -- whether a phase waits for sync, takes words, or is stopped
pub mod CurrentFrame  -- the frame that an address names
pub mod ControlState  -- the control state with one part of it replaced, and what a word can leave
pub mod RegisterWrites  -- a word written to a register, and fed to the CRC
pub mod PacketHeaders  -- header words: their fields, the packets they stand for, and stops 1, 2, 3, 6 and 7
pub mod Commands  -- what a command does when it acts
pub mod DataWords  -- a data word to each register, and a word in each phase
pub mod StreamBytes  -- the hunt for the sync word, and words from four bytes
pub mod Laws  -- what is proved of the definitions
