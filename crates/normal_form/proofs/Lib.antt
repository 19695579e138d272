pub mod Names
pub mod NamesGiven
