pub mod BeforeDial
pub mod Joined
pub mod Said
pub mod AfterReads
