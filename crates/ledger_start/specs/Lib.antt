pub mod Outsets
pub mod Seconds
pub mod Starts
pub mod TwoServices
pub mod Laws
