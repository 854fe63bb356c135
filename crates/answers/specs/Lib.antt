pub mod Written
pub mod Rewritten
pub mod Tidied
pub mod Statements
