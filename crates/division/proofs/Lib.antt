-- Laws that several of the crate's proofs cite.
mod Bounds
mod Order
mod Counts
mod Between
mod Search
mod Division
