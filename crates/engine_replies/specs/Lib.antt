pub mod Laws
pub mod Objects
pub mod Replies
pub mod Values
