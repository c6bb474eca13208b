pub mod Holds
pub mod Publication
