pub mod Image  -- the image of a record: 948 bytes
pub mod Decode  -- the record that bytes would be the image of
pub mod Compare  -- the bytes that are accepted as an image
pub mod Laws  -- what is proved of the definitions
pub mod Inner  -- vocabulary of private contracts and of loops, with its laws
