pub mod Worked
pub mod Listed
pub mod Start
pub mod Sides
pub mod Shown
pub mod Space
pub mod Rolls
