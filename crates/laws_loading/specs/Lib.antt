pub mod Settled
pub mod FilesInForms
pub mod Loads
pub mod Defaults
