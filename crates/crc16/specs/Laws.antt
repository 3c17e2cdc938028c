pub mod CrcBounds  -- the register stays below 65,536; of a word 32 bits count, of an address five
pub mod Linearity  -- the register is linear over xor
pub mod FedWords  -- words fed after words are all of them fed
