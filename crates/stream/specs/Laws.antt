pub mod PacketsJoined  -- packets after packets: their words follow one another, with the CRC that the first leave
pub mod FrameWords  -- the words of frames that lie one after the other are the words that lie there
pub mod StreamLength  -- the stream has the words of 01's formula
