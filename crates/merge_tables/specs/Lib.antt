pub mod Answers
pub mod Attributes
pub mod Parts
pub mod Spots
