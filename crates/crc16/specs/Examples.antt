pub mod FirstWord  -- 01's worked word from CRC zero
