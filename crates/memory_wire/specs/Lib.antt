pub mod DoorsInMemory
pub mod DoorsOfPlugs
pub mod PipesInMemory
pub mod StreamsInMemory
pub mod WiresInMemory
