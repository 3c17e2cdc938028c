pub mod EventEffects  -- what an event does to the frame buffer and to the memory
pub mod Run  -- a run over bytes: record and memory byte by byte, up to the end or a stop
pub mod Load  -- load, with its refusals
pub mod Laws  -- what is proved of the definitions
pub mod Inner  -- vocabulary of private contracts and of loops, with its laws
