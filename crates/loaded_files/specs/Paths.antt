-- Paths in the text, as the crate of paths says them.
pub use Rattle.file_paths.specs.Paths.{Variables, all_homed, directory_of, homed, joined}
