pub mod Events
pub mod Examples
pub mod Laws
pub mod Lines
pub mod Reading
pub mod Verdicts
