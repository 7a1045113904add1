pub mod Found
pub mod Row
pub mod Column
