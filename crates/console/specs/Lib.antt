pub mod Sections
pub mod Status
