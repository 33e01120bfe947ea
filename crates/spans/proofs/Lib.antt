pub mod Contents
pub mod Fields
pub mod Passing
pub mod Quoted
pub mod Words
