pub mod Allowed
pub mod Laws
pub mod MemoryRules
pub mod OneVolume
