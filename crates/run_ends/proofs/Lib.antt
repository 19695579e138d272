pub mod Lists
pub mod Holders
pub mod Quiet
pub mod Over
pub mod Leaving
