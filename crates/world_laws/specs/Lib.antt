pub mod OwnSpecs
pub mod Sights
pub mod Laws
pub mod Exactly
