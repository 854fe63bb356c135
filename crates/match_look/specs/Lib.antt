pub mod Candidate
pub mod Head
pub mod Look
pub mod Setting
