pub mod Following
pub mod Holders
pub mod Reports
