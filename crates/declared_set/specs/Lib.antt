pub mod Declaring
pub mod Ground
pub mod Labels
pub mod Refusing
pub mod Slots
