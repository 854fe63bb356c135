pub mod Demands
pub mod Countable
