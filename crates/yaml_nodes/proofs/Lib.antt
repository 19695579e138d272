pub mod AddedSteps
pub mod Chains
pub mod KeySteps
pub mod LenSteps
pub mod MarkSteps
pub mod PropertySteps
pub mod Spellings
