pub mod Decimals
pub mod Columns
pub mod Rows
pub mod Reading
pub mod Writing
pub mod Promises
pub mod Code
pub mod ReadBack
