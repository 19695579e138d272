pub mod Mappings
pub mod Marks
pub mod Progress
pub mod Properties
pub mod Scalars
pub mod Unfinished
