pub mod Fits
pub mod Cases
pub mod Writing
pub mod Nodes
pub mod Made
pub mod Terms
