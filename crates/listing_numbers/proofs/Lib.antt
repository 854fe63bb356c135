pub mod Laws
pub mod Stages
pub mod Plain
pub mod Stops
