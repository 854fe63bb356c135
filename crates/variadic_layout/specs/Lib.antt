pub mod Bytes
pub mod Written
pub mod Laid
pub mod Parts
pub mod Templates
