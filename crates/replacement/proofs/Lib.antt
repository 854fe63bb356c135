pub mod Site
pub mod Table
pub mod Consts
pub mod Kept
pub mod Values
pub mod Slots
pub mod Sound
