pub mod Order
pub mod Places
pub mod Once
pub mod Visits
pub mod Every
pub mod Leaves
