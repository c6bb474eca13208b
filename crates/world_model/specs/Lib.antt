pub mod Told
pub mod Meaning
pub mod Front
pub mod Defaults
