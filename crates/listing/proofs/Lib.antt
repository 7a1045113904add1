pub mod Storing
pub mod Parted
