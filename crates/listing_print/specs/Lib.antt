pub mod Laid
pub mod Rows
