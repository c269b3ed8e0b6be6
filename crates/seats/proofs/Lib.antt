-- Laws that the crate's proofs cite.
mod Weighing
mod Division
