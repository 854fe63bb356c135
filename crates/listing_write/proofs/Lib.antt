pub mod Slots
pub mod Parts
pub mod Outcome
