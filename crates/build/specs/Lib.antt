pub mod Inner  -- vocabulary of private contracts and of loops, with its laws
