pub mod Units
pub mod Loops
pub mod Walk
pub mod NumberLemmas
pub mod Tables
pub mod SetLemmas
pub mod LineLaws
pub mod TextLaws
pub mod Prefixes
pub mod TrueCauses
mod CauseRows
