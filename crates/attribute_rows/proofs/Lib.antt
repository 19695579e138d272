pub mod Chaining
pub mod Passing
pub mod Words
