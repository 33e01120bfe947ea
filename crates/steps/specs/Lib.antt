pub mod Model
pub mod Numbers
pub mod Steps
