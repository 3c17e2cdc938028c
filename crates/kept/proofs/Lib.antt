pub mod Laws  -- laws of loops that are gone
