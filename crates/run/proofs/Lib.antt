pub mod Filling
pub mod Places
