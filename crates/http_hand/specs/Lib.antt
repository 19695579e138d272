pub mod Speaking
pub mod Hearing
pub mod HttpHands
