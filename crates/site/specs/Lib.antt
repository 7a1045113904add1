pub mod Kinds
pub mod Site
