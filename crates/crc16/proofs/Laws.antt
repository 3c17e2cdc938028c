pub mod CheckWord  -- the check word passes, and no other word with upper sixteen bits zero does
pub mod NibbleLookup  -- fed by lookups in the table, a register is what `feed` says
pub mod ReversedBits  -- the check word is the register's bits in reverse
