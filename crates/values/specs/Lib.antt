pub mod File
pub mod Old
