pub mod Pointers
pub mod Located
pub mod Numbered
