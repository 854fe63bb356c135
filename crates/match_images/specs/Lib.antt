pub mod Partial
pub mod Ready
