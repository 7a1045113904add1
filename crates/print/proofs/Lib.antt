pub mod Signs
pub mod Spelt
pub mod Spelling
pub mod Places
pub mod Gathering
pub mod Written
