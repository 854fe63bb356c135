pub mod Nodes
pub mod Working
