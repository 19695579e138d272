pub mod Lines
pub mod Places
pub mod Trees
pub mod Walks
