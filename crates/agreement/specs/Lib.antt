pub mod Shows
pub mod Agreement
