pub mod Fates
pub mod MemoryHands
pub mod ScriptHands
pub mod SilentHands
