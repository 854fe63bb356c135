pub mod Gathers
pub mod First
pub mod Whole
