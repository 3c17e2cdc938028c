pub mod StreamPackets  -- the packets of a stream that is written, with the CRC that runs along
pub mod Stream  -- the stream of a list of steps
pub mod Laws  -- what is proved of the definitions
