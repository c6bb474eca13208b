pub mod FindLemmas
pub mod LeftLemmas
pub mod InsertLemmas
