pub mod Sound
pub mod Fixed
pub mod Working
