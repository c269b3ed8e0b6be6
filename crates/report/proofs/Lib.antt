-- Laws that the crate's proofs cite.
mod First
mod SeatBytes
mod Lines
