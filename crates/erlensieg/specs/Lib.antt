pub mod Nine
pub mod Promises
