pub mod Parts
pub mod Laws
pub mod Extents
pub mod Along
pub mod Opened
