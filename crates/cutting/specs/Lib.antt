-- What the contracts of cutting cite: what the program reads and says.
pub mod Told
