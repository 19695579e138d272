pub mod Answers
pub mod Beginning
pub mod Ledgers
pub mod Laws
pub mod Seeing
