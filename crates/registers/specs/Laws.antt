pub mod AddressLookup  -- the register at a register's address is that register
