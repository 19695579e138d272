pub mod Settles
pub mod Exchanges
