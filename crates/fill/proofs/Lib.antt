pub mod Calls
pub mod Copy
pub mod Flow
pub mod Grown
pub mod Left
pub mod Part
pub mod Put
