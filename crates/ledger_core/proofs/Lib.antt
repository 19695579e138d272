pub mod Answering
pub mod Asking
pub mod Deciding
pub mod Ending
pub mod Entries
pub mod Stopping
pub mod Permits
pub mod Seeing
