pub mod Reconfigured  -- a layout compiled for the record's own device, and the stream loaded
pub mod Promise  -- what a reconfiguration promises by its answer: demand 3, or that nothing changed
pub mod Laws  -- what is proved of the definitions
