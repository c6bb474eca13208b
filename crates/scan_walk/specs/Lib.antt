pub mod Progress
pub mod Walking
pub mod Making
pub mod Cased
pub mod Scans
