pub mod Bodies
pub mod ChunksRead
pub mod Found
pub mod Hearing
pub mod Reading
pub mod Stocks
