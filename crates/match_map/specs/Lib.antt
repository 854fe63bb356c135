pub mod Attempt
pub mod Holding
