pub mod Plans
pub mod SlotSeconds
pub mod Starts
pub mod TwoServices
