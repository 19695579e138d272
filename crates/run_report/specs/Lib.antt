pub mod Permits
pub mod Reports
pub mod Claims
pub mod Telling
pub mod Conditions
pub mod Rows
