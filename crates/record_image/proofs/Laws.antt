pub mod AcceptedImages  -- an accepted image loses nothing of its record
pub mod ByteLossless  -- a byte leads from a record of which its image loses nothing to such a record
pub mod ImageReads  -- the frame's words of an image, read and stored one by one
pub mod ImageRoundTrip  -- encoding and decoding are inverse to each other
pub mod RecordImages  -- the bytes that are taken for a record are the images of consistent records
