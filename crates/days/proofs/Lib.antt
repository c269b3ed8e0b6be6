pub mod Words
pub mod Firsts
pub mod Interest
pub mod Nexts
pub mod Counts
pub mod Judging
