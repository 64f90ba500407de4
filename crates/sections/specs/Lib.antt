pub mod Layouts
pub mod File
pub mod Table
pub mod Rows
pub mod Code
