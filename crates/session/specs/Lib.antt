pub mod Records
pub mod Fault
pub mod Promises
