pub mod Heads
pub mod Unset
