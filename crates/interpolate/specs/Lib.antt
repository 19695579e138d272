pub mod Lengths
pub mod Shapes
pub mod Heads
pub mod Cuts
pub mod Parts
pub mod Substitution
pub mod Walking
pub mod Laws
