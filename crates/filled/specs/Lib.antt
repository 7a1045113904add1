pub mod Moved
pub mod Row
