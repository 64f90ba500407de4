pub mod Words
pub mod Bytes
pub mod Decimal
pub mod Put
pub mod Lines
pub mod Table
