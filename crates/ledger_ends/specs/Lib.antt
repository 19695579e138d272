pub mod Dependents
pub mod Losses
pub mod Retiring
pub mod Entries
