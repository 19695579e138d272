pub mod Variables
pub mod Orders
