pub mod Cuts
pub mod Grouped
pub mod Parts
