pub mod Demands
pub mod Jumping
pub mod Streaming
