pub mod Includes
pub mod Laws
pub mod Loading
pub mod Merged
pub mod Requests
pub mod Sections
pub mod Services
