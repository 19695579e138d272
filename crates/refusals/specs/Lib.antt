pub mod Lines
pub mod Origins
pub mod Refused
pub mod Saying
pub mod Statuses
pub mod Went
