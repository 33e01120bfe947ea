pub mod Growing
pub mod Put
