pub mod Settling
pub mod Exchanged
pub mod Outcomes
pub mod SharedHands
pub mod SharedPlugs
