pub mod Lines
pub mod Loads
pub mod PlainWords
pub mod Printed
