pub mod Ids
pub mod Keeping
pub mod Naming
pub mod Listing
pub mod Serving
pub mod Ticking
