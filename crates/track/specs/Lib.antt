pub mod Segments
pub mod Rule
pub mod Made
pub mod Answer
pub mod Promises
pub mod Fewest
pub mod Starred
