mod Alone
mod Files
mod InParts
mod KnownServices
mod Layers
mod Links
mod Standalone
pub mod Standing
mod Walked
