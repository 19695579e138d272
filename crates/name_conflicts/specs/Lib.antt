pub mod Conflicts
pub mod Looks
