pub mod Numbers
pub mod Two
pub mod Starts
pub mod Pairs
pub mod Stamps
pub mod Good
