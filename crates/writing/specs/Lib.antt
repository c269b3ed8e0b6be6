-- What the contracts of writing cite: a buffer with bytes written into it; and what is shown of a line, for those who write lines.
pub mod Written
pub mod Shown
