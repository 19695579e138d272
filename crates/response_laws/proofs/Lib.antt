pub mod Cutting
pub mod Printed
pub mod Excluding
