pub mod Digits
pub mod Laws
pub mod Written
pub mod Fewest
pub mod Bytes
pub mod Forms
pub mod Rows
