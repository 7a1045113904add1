pub mod Spills
pub mod Over
