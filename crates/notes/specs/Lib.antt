pub mod Attributes
pub mod Containers
pub mod Files
pub mod Lines
pub mod Orphans
pub mod Variables
