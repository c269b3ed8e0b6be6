-- What a run of trades means in the rules, and what the proofs share.
pub mod Adds
pub mod Runs
pub mod Oldest
pub mod Readable
pub mod Found
pub mod Sizes
pub mod Onward
