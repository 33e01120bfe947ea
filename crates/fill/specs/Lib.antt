pub mod Buffers
pub mod Fill
pub mod Put
pub mod Walk
