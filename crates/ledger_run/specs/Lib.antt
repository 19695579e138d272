pub mod Tellings
pub mod Steps
pub mod Timing
pub mod Turns
pub mod Works
pub mod Laws
