pub mod Attributes
pub mod Lines
pub mod Near
pub mod Requests
pub mod Sockets
pub mod Told
pub mod Words
