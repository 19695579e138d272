pub mod Options
pub mod Opening
pub mod Carrying
pub mod Worlds
pub mod Timing
pub mod Whole
pub mod Laws
