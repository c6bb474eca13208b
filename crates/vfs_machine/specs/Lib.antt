pub mod Whole
pub mod Called
pub mod Steps
pub mod Calls
pub mod Deliveries
pub mod Publish
pub mod Roots
