pub mod GrantLaws
pub mod Begun
pub mod Preparing
pub mod BeginLaws
