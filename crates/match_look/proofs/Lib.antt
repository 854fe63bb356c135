pub mod Candidates
pub mod Look
pub mod Words
pub mod Working
