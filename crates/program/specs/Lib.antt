pub mod Endings
pub mod Promises
