pub mod Refusals
pub mod Rows
pub mod Shown
pub mod Words
