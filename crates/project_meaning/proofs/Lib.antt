pub mod Finishing
pub mod Inserting
pub mod Keeping
pub mod Ordered
pub mod Searching
pub mod Whole
