pub mod Ends
pub mod Dialling
pub mod Runs
pub mod Reaching
