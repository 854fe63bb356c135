pub mod Records
pub mod Values
