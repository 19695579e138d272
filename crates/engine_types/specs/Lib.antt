pub mod Labels
pub mod Specs
