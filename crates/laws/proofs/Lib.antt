-- Laws that the proofs of other crates cite.
pub mod Table
pub mod Powers
pub mod Casts
pub mod Parts
pub mod Never
pub mod Bools
pub mod Stores
