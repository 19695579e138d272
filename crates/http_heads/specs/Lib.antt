pub mod Feeds
pub mod Searches
