pub mod Shapes
pub mod Walk
pub mod Numbers
pub mod Sound
pub mod Accepted
pub mod TwoTables
pub mod Refused
pub mod Orders
