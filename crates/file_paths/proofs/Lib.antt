pub mod Homes
pub mod Joins
pub mod KeptSteps
pub mod Schemes
pub mod Taken
pub mod Walking
