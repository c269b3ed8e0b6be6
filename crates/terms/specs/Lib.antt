pub mod Terms
pub mod Ranges
