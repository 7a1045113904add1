pub mod Laws
pub mod Past
pub mod Found
