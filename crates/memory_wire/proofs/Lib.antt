pub mod Giving
pub mod Dialling
pub mod Opening
