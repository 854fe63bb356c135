pub mod Written
pub mod Filled
