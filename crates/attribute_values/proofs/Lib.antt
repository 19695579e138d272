pub mod Nulls
pub mod Seen
