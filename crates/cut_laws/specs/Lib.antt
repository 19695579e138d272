pub mod Once
pub mod Spared
