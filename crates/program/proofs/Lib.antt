pub mod OneNumber
pub mod Answered
