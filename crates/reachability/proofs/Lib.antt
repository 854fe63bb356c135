pub mod Marks
pub mod Reaching
pub mod Cycles
pub mod Worklist
pub mod Examples
