pub mod Laws
pub mod Sites
