pub mod Sine
pub mod Taylor
pub mod Starred
pub mod Promises
