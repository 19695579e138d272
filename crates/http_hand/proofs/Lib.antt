pub mod Talking
pub mod Closing
pub mod Rows
pub mod Hearing
