pub mod Head
pub mod Entry
pub mod Page
