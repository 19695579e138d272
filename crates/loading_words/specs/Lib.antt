pub mod Messages
pub mod Paths
pub mod Statuses
