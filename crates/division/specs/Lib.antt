-- What the crate's contracts cite.
pub mod Shares
pub mod Parts
