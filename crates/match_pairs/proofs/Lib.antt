pub mod Later
pub mod Pairs
