-- Theorems on what edits of must-fail/ change.
pub mod BookBack
pub mod CallsBack
pub mod Refused
pub mod ReadReasons
pub mod Room
