pub mod Texts
pub mod Session
pub mod Segments
pub mod Printed
pub mod Passes
