pub mod Fields
pub mod Formed
pub mod Records
pub mod Search
pub mod Seek
pub mod Shown
