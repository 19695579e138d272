pub mod Json
pub mod Laws
pub mod Pages
pub mod Scalars
pub mod Values
pub mod Written
