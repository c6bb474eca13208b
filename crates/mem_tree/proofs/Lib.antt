pub mod SeekLemmas
pub mod TreeLemmas
pub mod EntriesLemmas
pub mod EditedLemmas
pub mod RefusalLemmas
pub mod LookLemmas
pub mod CaseLemmas
