pub mod Shown
pub mod Chunked
pub mod EarlyEnds
