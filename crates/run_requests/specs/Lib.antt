pub mod Asking
pub mod Setups
