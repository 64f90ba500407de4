pub mod Lent
pub mod Host
pub mod Promises
pub mod Ends
pub mod Starred
