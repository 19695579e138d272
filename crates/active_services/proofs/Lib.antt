pub mod AllEnabled
pub mod Keeping
pub mod Mappings
pub mod Models
pub mod NeedsKept
pub mod ProfileOrder
pub mod Walking
pub mod WhichKept
