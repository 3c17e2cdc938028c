pub mod Decimal  -- the number that a text spells in decimal digits
