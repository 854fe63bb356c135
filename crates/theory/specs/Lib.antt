pub mod Examples
pub mod SharedConstants
pub mod Faults
pub mod Tidying
pub mod Counts
pub mod ReadElsewhere
