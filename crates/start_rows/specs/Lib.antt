pub mod Asks
pub mod Firsts
pub mod Laws
