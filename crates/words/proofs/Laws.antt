pub mod WordBytes  -- words to bytes and back
pub mod WordStores  -- words stored one after the other
pub mod WordTests  -- words compared one after the other
pub mod WordReads  -- words read one after the other
