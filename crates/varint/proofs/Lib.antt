pub mod Steps
pub mod Found
pub mod Laws
