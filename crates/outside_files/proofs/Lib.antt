pub mod AfterReads
pub mod Writes
