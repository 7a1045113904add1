pub mod Marks
pub mod Guarded
