mod Counting
mod Looking
mod Twice
