-- What a group means in the rules, and what the proofs share.
pub mod Totals
pub mod GroupMeans
