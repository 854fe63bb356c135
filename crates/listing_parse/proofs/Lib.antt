pub mod Letters
pub mod Naturals
pub mod Chains
