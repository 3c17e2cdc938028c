pub mod CrcRegister  -- the CRC register, shifted once for each bit, and the check word
pub mod NibbleTable  -- what each nibble that is fed adds to the register, as a table of 256 entries
pub mod Laws  -- what is proved of the definitions
pub mod Examples  -- 01's statements marked P, and examples that a theorem's premise can be met
