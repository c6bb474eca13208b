pub mod PrefixLemmas
pub mod HashingLemmas
pub mod CallLemmas
pub mod LeadLemmas
pub mod TakeLemmas
pub mod RunLemmas
pub mod OpenLemmas
pub mod LineLemmas
