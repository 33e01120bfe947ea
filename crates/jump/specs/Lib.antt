pub mod Jump
pub mod Pass
