pub mod Cutting
pub mod Distances
pub mod Left
pub mod Searching
pub mod Seeking
pub mod Showing
pub mod Testing
