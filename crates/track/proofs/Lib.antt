pub mod Theorems
pub mod Runs
pub mod Room
pub mod Ranged
pub mod Answers
pub mod Fewest
pub mod Starred
