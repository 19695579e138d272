pub mod Answers
pub mod Kinds
pub mod Lookups
pub mod Tables
pub mod Values
