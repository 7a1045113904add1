-- Words that the definitions of all crates share.
pub mod Pick
