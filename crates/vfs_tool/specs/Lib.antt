pub mod Statuses
pub mod Input
pub mod Run
pub mod Forms
pub mod Gen
pub mod Folder
pub mod Scripts
