pub mod Lines
pub mod Progresses
pub mod Subjects
pub mod Words
