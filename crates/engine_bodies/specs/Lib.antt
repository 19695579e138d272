pub mod Containers
pub mod Json
pub mod Objects
pub mod Requests
pub mod Resources
