pub mod Needs
pub mod Granted
pub mod Aims
pub mod Prepared
pub mod Begun
