pub mod AloneSteps
mod Examples
pub mod KeyTexts
pub mod Laying
pub mod EntryMarks
pub mod MergedTrees
pub mod EntryPlaces
pub mod Sames
pub mod Unchanged
pub mod Unmarked
pub mod AskedSteps
pub mod UnmarkedFiles
pub mod WrittenSteps
