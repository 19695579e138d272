pub mod Rows
pub mod Silences
pub mod Scripts
