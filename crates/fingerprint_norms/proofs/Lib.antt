pub mod OrderLemmas
pub mod WalkLemmas
pub mod ShownLemmas
pub mod LawLemmas
