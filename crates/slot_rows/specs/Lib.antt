pub mod Keys
pub mod Slots
pub mod Reports
pub mod Laws
