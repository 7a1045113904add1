pub mod Screen
pub mod Turns
pub mod Rows
