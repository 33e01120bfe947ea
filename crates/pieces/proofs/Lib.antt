pub mod Ahead
pub mod Asking
pub mod Stands
