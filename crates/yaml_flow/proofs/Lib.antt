pub mod CodeSteps
pub mod EndSteps
pub mod GapSteps
pub mod Levels
pub mod NodeSteps
pub mod PieceSteps
pub mod ScanSteps
