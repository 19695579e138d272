pub mod Cycles
pub mod Laws
pub mod Places
pub mod Ranks
pub mod Reaching
