pub mod Building
pub mod Falls
pub mod Height
pub mod Listing
pub mod Meaning
pub mod Pieces
