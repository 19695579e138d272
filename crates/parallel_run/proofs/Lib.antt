pub mod Each
pub mod Carried
pub mod Joined
pub mod Bad
pub mod Opened
pub mod Ends
