pub mod Marks
pub mod Spread
