pub mod Line
pub mod Greedy
pub mod Rates
pub mod Chains
