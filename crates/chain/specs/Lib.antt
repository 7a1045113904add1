pub mod Payload
pub mod Gathered
pub mod Copied
