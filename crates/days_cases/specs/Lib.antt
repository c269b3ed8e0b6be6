-- Cases of lists: what they are made of, and that they hold.
pub mod Case
pub mod Cases
pub mod Ladders
