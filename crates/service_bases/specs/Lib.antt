pub mod Bases
pub mod Chains
pub mod Extending
pub mod Known
pub mod Laws
