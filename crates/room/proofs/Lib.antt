pub mod Counted
pub mod Window
