mod Faults
pub mod Files
pub mod Givens
pub mod Laid
pub mod Names
pub mod Runs
pub mod Steps
pub mod Went
pub mod Winning
