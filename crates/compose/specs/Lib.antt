pub mod Directories
pub mod Ends
pub mod Given
pub mod Hinting
pub mod Seconds
