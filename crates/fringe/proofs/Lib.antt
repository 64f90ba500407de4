pub mod Taken
pub mod Passes
pub mod Sharing
pub mod Written
pub mod TwoCalls
pub mod Theorems
pub mod Starred
