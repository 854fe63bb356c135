pub mod State
pub mod Stops
