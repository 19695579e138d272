pub mod Alike
pub mod Once
pub mod Walks
