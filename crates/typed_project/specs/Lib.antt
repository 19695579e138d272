pub mod DistinctNames
pub mod PlainProjects
pub mod Projects
