pub mod Columns
pub mod Along
pub mod Opened
