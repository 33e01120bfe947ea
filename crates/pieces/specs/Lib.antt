pub mod Answers
pub mod Check
