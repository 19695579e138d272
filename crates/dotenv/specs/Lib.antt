pub mod Characters
pub mod Quotes
pub mod Lines
pub mod Variables
pub mod Files
pub mod Laws
