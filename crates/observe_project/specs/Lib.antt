pub mod Exchanges
pub mod Steps
pub mod Reading
pub mod LeastRows
