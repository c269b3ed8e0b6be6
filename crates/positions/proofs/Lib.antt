-- What seats mean in the rules, and what the proofs share.
pub mod Found
pub mod Within
pub mod Turn
pub mod Positions
pub mod SeatFields
pub mod Means
pub mod Again
