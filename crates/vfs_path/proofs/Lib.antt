pub mod Cuts
pub mod Segments
pub mod Written
pub mod TextLaws
pub mod Unsaid
