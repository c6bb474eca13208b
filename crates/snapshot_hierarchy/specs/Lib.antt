pub mod Flat
pub mod Held
