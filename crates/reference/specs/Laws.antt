pub mod FramesKept  -- an accepted layout changes no frame outside the range, and a refused one no byte
