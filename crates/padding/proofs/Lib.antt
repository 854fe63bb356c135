pub mod Turns
pub mod Mapped
