pub mod Blocks
pub mod Bytes
pub mod Lines
pub mod Runs
