pub mod GeneratedLemmas
pub mod CountLemmas
