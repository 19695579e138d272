pub mod Clean
pub mod Entries
pub mod EntryGroups
pub mod Fields
pub mod Keys
pub mod Known
pub mod ListGroups
mod Merged
pub mod Options
pub mod Over
pub mod Plain
pub mod Silent
pub mod Standing
pub mod TreeGroups
pub mod TreeKinds
pub mod WithoutUnique
