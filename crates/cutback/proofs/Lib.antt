pub mod Places
pub mod Codes
pub mod Lots
pub mod Judging
pub mod Seating
pub mod Cutting
