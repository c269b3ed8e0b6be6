-- What the contracts of positions cite: one seat after the other, and what they come to.
pub mod Position
pub mod Seats
pub mod Ranges
