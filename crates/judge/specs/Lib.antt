pub mod Judgement
pub mod Promises
pub mod Accepted
