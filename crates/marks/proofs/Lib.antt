pub mod Some
pub mod Behind
pub mod Same
pub mod Differ
