pub mod Laws
pub mod ProjectNames
pub mod Projects
