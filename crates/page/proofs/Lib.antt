pub mod Laws
pub mod Opened
pub mod Steps
