pub mod Opening
pub mod Polling
pub mod Reporting
