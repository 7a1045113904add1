pub mod Walk
pub mod Table
pub mod Tree
pub mod Counted
