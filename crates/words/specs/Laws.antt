pub mod ByteLists  -- lists of bytes, lists of words, and their parts
