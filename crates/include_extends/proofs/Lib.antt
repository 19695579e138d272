mod Added
mod Completed
mod Files
mod Included
mod Named
mod Placed
pub mod PlainModels
