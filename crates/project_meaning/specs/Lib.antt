pub mod Answers
pub mod Completing
pub mod Meaning
pub mod Names
pub mod Parts
