-- What the proofs share.
pub mod Places
pub mod ByPlace
pub mod Filling
pub mod Joined
