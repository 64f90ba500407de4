pub mod Answers
pub mod Refusals
pub mod Cases
pub mod Each
pub mod Ranges
pub mod Steps
pub mod Values
pub mod Whole
