pub mod Telling
pub mod Adding
pub mod Granting
pub mod Counting
pub mod Told
