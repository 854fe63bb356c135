pub mod Laws
pub mod Sound
pub mod Readable
