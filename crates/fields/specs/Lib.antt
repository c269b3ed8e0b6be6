pub mod First
pub mod Laws
pub mod Reading
pub mod Ranges
