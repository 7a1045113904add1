pub mod Parts
pub mod Laws
pub mod Numbered
pub mod Got
pub mod Values
