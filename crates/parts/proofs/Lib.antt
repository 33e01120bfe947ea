pub mod Passing
pub mod Raised
