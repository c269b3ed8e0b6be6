-- What the contracts of shell cite: what came from an input, and the statuses.
pub mod Shell
pub mod Opening
