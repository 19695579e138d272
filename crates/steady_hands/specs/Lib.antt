pub mod LoneHands
pub mod Steady
pub mod SteadyHands
