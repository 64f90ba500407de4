pub mod DayLaws
pub mod Marks
pub mod Sights
pub mod Sizes
pub mod Swapped
