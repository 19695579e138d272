pub mod Ends
pub mod Later
pub mod Puts
pub mod Quoting
pub mod ReadingBack
pub mod Refusing
