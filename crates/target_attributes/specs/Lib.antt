pub mod Fitness
pub mod Words
