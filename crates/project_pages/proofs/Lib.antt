pub mod Fields
pub mod Fractions
pub mod Hashed
pub mod Keys
pub mod Lists
pub mod Records
pub mod PageLines
