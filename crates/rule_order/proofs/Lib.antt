pub mod InOrder
pub mod Laws
pub mod Once
