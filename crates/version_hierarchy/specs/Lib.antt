pub mod Flat
pub mod Code
pub mod Numbers
pub mod Falls
pub mod Tree
