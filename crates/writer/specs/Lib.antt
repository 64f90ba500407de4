pub mod Writing
pub mod Promises
pub mod Handed
pub mod Round
pub mod Lists
