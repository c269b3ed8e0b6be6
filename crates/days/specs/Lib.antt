-- A list of days: requests [11] and [12] as definitions, in their order; then what the code says of places, and the laws that join the two.
pub mod Refusal
pub mod Lines
pub mod Day
pub mod Listed
pub mod Places
pub mod Parts
pub mod Steps
pub mod Heads
pub mod Passing
pub mod Formed
pub mod Above
pub mod Few
