pub mod Laws
pub mod Twos
