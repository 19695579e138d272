pub mod Circles
pub mod Heights
pub mod Places
pub mod Ways
