-- Comma sheets: request [8] as definitions, in its order; then what the code says of places and sizes.
pub mod Refusal
pub mod Mark
pub mod Line
pub mod Read
pub mod Write
pub mod Answers
pub mod Inside
pub mod Shown
pub mod Places
pub mod Fronts
pub mod Sizes
pub mod Put
pub mod Making
