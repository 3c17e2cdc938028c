pub mod WordsInBytes  -- words of 32 bits in bytes, high byte first
pub mod Laws  -- what is proved of the definitions
