-- What the contracts of allot cite: what the program says of a book, and the status that it ends with.
pub mod Told
