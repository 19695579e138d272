pub mod Grouping
pub mod OneFile
pub mod Twice
pub mod Unspoken
