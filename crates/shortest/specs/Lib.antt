pub mod Shortest
pub mod Forms
pub mod Rows
