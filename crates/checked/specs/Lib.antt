pub mod Whole
pub mod Past
