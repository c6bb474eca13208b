pub mod Causes
pub mod Steps
pub mod Spelling
pub mod Words
pub mod Set
pub mod Grammar
pub mod Writing
pub mod Laws
