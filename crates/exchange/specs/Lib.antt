pub mod Run
pub mod Alone
pub mod Last
pub mod Behind
pub mod Answers
pub mod Room
