pub mod KeptRecord  -- records whose numbers fit their fields, and what an image keeps of a record
pub mod ImageNumbers  -- bounds of the image's numbers
pub mod DecodedHead  -- the words of an image's head decode to what they are of
pub mod FreshImage  -- the image of power-on's record loses nothing of it
pub mod Remembered  -- what a state remembers from one byte to the next
