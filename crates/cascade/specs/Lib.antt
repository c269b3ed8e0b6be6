-- What the crate's contracts cite, and laws of it for the callers.
pub mod Columns
pub mod State
pub mod After
pub mod Rows
pub mod Capped
