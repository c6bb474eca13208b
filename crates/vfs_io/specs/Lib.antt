pub mod Told
pub mod Pieces
pub mod Streams
pub mod Seen
pub mod Listing
pub mod Folder
