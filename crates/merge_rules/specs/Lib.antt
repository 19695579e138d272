pub mod Alone
pub mod Laws
pub mod Overlay
pub mod Sameness
pub mod Uniqueness
pub mod Marks
pub mod UnderExtends
