pub mod Carried
pub mod Swept
pub mod Squeezed
pub mod Counts
