pub mod Differences
pub mod BodyLaws
pub mod CutLaws
pub mod PartLaws
pub mod BrokenLaws
pub mod BrokenExamples
