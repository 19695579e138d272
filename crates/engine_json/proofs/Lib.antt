pub mod Bodies
pub mod Places
pub mod Streams
