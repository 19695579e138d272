mod Values
mod Steps
pub mod Unsaid
