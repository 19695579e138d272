pub mod Firsts
pub mod Sorted
