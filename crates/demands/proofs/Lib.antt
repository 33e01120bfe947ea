pub mod Demands
pub mod Feeding
pub mod Jumping
pub mod Reader
pub mod Streaming
