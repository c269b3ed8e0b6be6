-- Document 01 as definitions, a file for each of its parts, in its order. docs/RULES.md has the same in words.
pub mod Text
pub mod Refusal
pub mod Limits
pub mod Figures
pub mod Stamp
pub mod Opening
pub mod Codes
pub mod Fields
pub mod Book
pub mod Standing
pub mod Division
pub mod Cascade
pub mod Seats
pub mod Report
pub mod Answer
