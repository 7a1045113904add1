pub mod Copies
pub mod Following
pub mod Payloads
pub mod Laws
