pub mod Fields
pub mod Answers
pub mod Blame
pub mod Laws
pub mod Past
pub mod Promises
pub mod Unique
