-- What the reading of a figure means in the rules, and what the readers' proofs share.
pub mod Due
pub mod Steps
pub mod Within
