pub mod KeyNames
pub mod Form
pub mod Keys
pub mod Places
pub mod Children
