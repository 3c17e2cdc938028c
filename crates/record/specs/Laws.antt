pub mod StaysConsistent  -- every word and every byte from a consistent state gives a consistent state
pub mod EventPlaces  -- from a consistent state a word is kept at a place under L, a frame stored at one under F
pub mod FreshRecord  -- power-on, refused and done; the fresh record is consistent
