pub mod EnvItems
pub mod Environments
