pub mod DoorsOfSockets
pub mod Patiences
pub mod PipesOfSockets
pub mod WiresOfSockets
