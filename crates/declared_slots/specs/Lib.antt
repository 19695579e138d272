pub mod Counts
pub mod Goals
pub mod Named
pub mod Needs
pub mod Refusing
