pub mod BuilderLemmas
pub mod ListingLemmas
pub mod PiecesLemmas
pub mod SubLemmas
