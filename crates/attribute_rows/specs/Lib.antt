pub mod Attributes
pub mod Folders
pub mod Rows
