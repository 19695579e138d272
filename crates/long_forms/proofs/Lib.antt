mod Examples
pub mod FormAnswers
pub mod Lengthening
pub mod LongEntries
pub mod LongStays
pub mod StayLongSteps
