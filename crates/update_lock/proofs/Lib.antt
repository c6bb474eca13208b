pub mod Totals
pub mod Parts
pub mod Keeps
pub mod Seating
pub mod Ending
pub mod Grown
pub mod Dealing
pub mod Joining
