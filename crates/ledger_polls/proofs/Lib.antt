pub mod Resting
pub mod News
pub mod Polled
