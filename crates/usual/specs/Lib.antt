pub mod Usual
pub mod Short
