pub mod Rows
pub mod Table
pub mod Order
pub mod Index
pub mod Finding
pub mod Keeping
