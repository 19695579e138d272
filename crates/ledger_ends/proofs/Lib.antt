pub mod Askers
pub mod Freshening
pub mod Claims
pub mod Losing
