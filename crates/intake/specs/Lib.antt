-- What the contracts of intake and of its programs cite: what a program has from an input, and what it tells; then laws of what it writes.
pub mod Long
pub mod Told
pub mod Telling
pub mod Rolled
