pub mod Fitting
pub mod Views
