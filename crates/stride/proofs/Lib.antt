pub mod Content
pub mod Walk
