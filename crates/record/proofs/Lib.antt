pub mod Laws
pub mod Stages
pub mod Count
pub mod Kept
pub mod Spelt
pub mod Accepted
pub mod Room
pub mod Faults
