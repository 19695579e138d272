pub mod Counts
pub mod Askers
pub mod Lacking
pub mod Placing
pub mod Reading
pub mod Starting
pub mod Depending
