-- What a turn of the loop over customers comes to, over plain lists.
pub mod Turns
pub mod Customer
mod Filling
