pub mod ShownChars
