pub mod Agreement
pub mod Evaluation
