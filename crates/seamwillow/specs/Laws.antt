pub mod LeftImages  -- the image that a call leaves is accepted again, and decodes to the record that it left
pub mod ImagePieces  -- a load by pieces, with the record's image between them, ends as the joined load
pub mod RefusedCalls  -- what each call does case by case; a refused call changes nothing
