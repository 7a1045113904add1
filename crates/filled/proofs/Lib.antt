pub mod Stored
pub mod Checked
pub mod Found
pub mod Counted
