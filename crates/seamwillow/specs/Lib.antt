pub mod RecordCalls  -- what the C interface makes of a record's image: power-on, load, reconfiguration
pub mod NumberTold  -- what the C interface writes for an answer on a frame's number
pub mod Laws  -- what is proved of the definitions
