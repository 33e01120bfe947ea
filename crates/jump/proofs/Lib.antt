pub mod Building
pub mod Bytes
pub mod Calls
pub mod Outcomes
pub mod Passes
