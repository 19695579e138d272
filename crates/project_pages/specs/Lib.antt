pub mod AttributePages
pub mod Puts
pub mod Sections
