pub mod Facts
pub mod Counts
pub mod ActionRows
pub mod Rows
pub mod Entries
pub mod Reports
pub mod Workers
pub mod Laws
