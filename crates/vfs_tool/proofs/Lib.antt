pub mod TakeLemmas
pub mod WordLemmas
pub mod ToldLemmas
pub mod GenLemmas
pub mod CountLemmas
mod FolderLemmas
mod MachineLemmas
