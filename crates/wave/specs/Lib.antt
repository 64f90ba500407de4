pub mod Values
pub mod Bounds
pub mod DayValues
pub mod Delays
pub mod Keeping
pub mod PlaneWave
