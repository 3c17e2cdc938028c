pub mod Consistency  -- when a record is consistent, item by item in 01's order
pub mod PowerOn  -- power-on, with its refusals
pub mod Laws  -- what is proved of the definitions
pub mod Examples  -- 01's statements marked P, and examples that a theorem's premise can be met
