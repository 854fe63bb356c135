pub mod Fields
pub mod Flat
pub mod Layouts
pub mod Orders
pub mod Outputs
pub mod Sides
pub mod Walks
