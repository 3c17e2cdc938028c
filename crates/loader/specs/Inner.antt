pub mod FillWords  -- words of frame data that only fill the frame buffer
pub mod Turn  -- a turn of the load: a byte, a word, or words that only fill
