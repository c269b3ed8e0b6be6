-- Laws that the crate's proofs cite.
mod Weights
mod Dealt
mod Tier
mod Tiers
mod Reading
mod InRows
mod Turned
