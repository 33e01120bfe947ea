pub mod Calls
pub mod Last
pub mod Outcomes
