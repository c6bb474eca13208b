pub mod StandingLemmas
pub mod NumbersLemmas
