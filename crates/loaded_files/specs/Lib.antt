pub mod EnvFiles
pub mod Fields
pub mod FileTrees
pub mod Laws
pub mod Paths
pub mod Reads
pub mod Refusing
