pub mod LaterOffset  -- a check at an offset is the check of the bytes from there on
