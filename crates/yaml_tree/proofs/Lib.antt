pub mod Levels
pub mod PartSteps
