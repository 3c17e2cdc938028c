pub mod CompilerAnswer  -- accepted: the check accepts and the stream is written; refused: the output is kept
