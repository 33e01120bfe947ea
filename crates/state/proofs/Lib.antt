pub mod Between
pub mod Byte
pub mod Closing
pub mod Going
pub mod Jumps
pub mod Moves
pub mod Parts
pub mod Refused
