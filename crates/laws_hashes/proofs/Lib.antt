pub mod Readings
pub mod Services
pub mod Texts
