pub mod Numbers
pub mod Cell
