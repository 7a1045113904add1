pub mod Old
pub mod File
