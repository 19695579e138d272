pub mod Declaring
pub mod Laws
pub mod Told
