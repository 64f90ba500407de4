pub mod Calls
pub mod Keeping
pub mod Promises
pub mod Sessions
