pub mod Outputs
pub mod Skips
