-- What the contracts of sheet cite: what its first words ask for, and what it says of an answer.
pub mod Words
pub mod Told
