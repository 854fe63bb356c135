pub mod Templated
pub mod Values
pub mod Examples
pub mod Search
pub mod Formed
