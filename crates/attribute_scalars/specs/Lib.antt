pub mod Lists
pub mod Scalars
pub mod Views
pub mod Walks
