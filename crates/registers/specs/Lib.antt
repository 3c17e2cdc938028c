pub mod RegisterAddresses  -- the registers by address, and which of them can be written
pub mod CommandCodes  -- the codes of the commands
pub mod Laws  -- what is proved of the definitions
