pub mod Blocks
pub mod Inline
pub mod Parts
pub mod Reading
pub mod Steps
