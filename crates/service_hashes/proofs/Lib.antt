pub mod Alike
pub mod Changes
pub mod Rows
pub mod Strings
pub mod Telling
pub mod Texts
