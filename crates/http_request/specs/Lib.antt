pub mod Escapes
pub mod Events
pub mod Heads
pub mod Images
pub mod Laws
pub mod Requests
