pub mod Ends
pub mod Block
