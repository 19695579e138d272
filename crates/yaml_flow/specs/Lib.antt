pub mod Flow
pub mod Gaps
pub mod Pieces
