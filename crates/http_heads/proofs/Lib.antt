mod Feeding
mod Following
mod Parts
