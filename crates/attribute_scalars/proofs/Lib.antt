pub mod EntryOrder
pub mod Given
pub mod KeptKeys
pub mod Ordering
pub mod Pairs
pub mod Profiles
pub mod Walks
