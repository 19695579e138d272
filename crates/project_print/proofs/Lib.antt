pub mod Blocks
pub mod Commas
pub mod Letters
pub mod Places
pub mod PlainWords
pub mod Quotes
pub mod ReadBack
pub mod Strings
