-- What the contracts of ladder cite: how long a listing is.
pub mod Sizes
