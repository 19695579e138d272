pub mod Apart
pub mod Attributes
pub mod Found
pub mod Meanings
pub mod NoneLost
pub mod Rising
pub mod Sections
pub mod Values
