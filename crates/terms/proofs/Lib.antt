-- What the terms mean in the rules, and what the proofs share.
pub mod Terms
pub mod Found
pub mod OneByte
pub mod Within
