pub mod Maps
pub mod Steps
