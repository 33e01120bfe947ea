pub mod Check
pub mod Settled
