pub mod boxed
pub mod list
pub mod shared
pub mod text_map
