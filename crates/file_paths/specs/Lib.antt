pub mod Answers
pub mod Laws
pub mod PathRules
pub mod Paths
pub mod Resolving
pub mod Shapes
pub mod Spots
