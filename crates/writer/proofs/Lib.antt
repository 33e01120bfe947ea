pub mod Calls
pub mod Content
pub mod Fields
pub mod Lines
pub mod Outcomes
pub mod Parts
pub mod Sizes
