pub mod Head
pub mod Open
