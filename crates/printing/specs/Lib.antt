-- What the contracts of printing cite: the pieces of a listing.
pub mod Printed
