pub mod Counts
pub mod Failures
pub mod Files
pub mod FilesInMemory
pub mod Reads
pub mod Sinks
pub mod SinksInMemory
pub mod Writing
