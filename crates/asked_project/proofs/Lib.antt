pub mod Answered
mod Origins
pub mod Refusing
