pub mod Agreement
pub mod Length
