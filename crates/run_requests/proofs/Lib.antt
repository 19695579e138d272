pub mod Searches
pub mod Replies
pub mod Journals
pub mod Known
