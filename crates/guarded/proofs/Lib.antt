pub mod Guard
pub mod Along
pub mod Marked
pub mod Calls
