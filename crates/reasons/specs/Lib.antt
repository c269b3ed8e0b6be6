-- What the contracts of reasons cite: lines of a text, and what a refusal says in words.
pub mod Lines
pub mod Reason
pub mod Sizes
