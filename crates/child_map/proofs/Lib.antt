pub mod PlaceLemmas
pub mod EntryLemmas
pub mod MapLemmas
