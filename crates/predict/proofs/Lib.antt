pub mod Reach
pub mod Bools
pub mod Numbers
pub mod Answers
pub mod Own
pub mod Starred
