pub mod Hearing
pub mod Requests
pub mod Stocks
