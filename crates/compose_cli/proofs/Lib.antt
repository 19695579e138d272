pub mod Ending
pub mod Dialled
pub mod Ran
pub mod Declaring
pub mod Reachable
pub mod Circles
pub mod Statuses
