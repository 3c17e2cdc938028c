pub mod SeparateNumbers  -- every refusal has a number of its own, and none has 31
