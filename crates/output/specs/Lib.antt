pub mod Out
pub mod Promises
pub mod Stream
