pub mod Accounts
pub mod Writes
