pub mod Counted
pub mod Marked
