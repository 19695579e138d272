pub mod Seats
pub mod Crew
