-- What the proofs share.
pub mod Counting
pub mod Spanned
pub mod Joined
