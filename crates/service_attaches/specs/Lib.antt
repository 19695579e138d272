pub mod Attaches
