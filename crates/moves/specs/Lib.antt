-- What the contracts of moves cite: how long a listing is.
pub mod Sizes
