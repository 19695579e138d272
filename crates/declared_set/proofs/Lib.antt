mod Grounds
mod Numbering
