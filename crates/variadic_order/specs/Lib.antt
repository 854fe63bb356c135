pub mod Order
pub mod Sides
pub mod Visits
