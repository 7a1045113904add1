pub mod Counted
pub mod Opened
pub mod Entries
pub mod Refused
