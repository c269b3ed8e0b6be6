-- What is promised of lists of days, as theorems.
pub mod Enough
pub mod Local
pub mod Ladder
pub mod Raises
pub mod Determined
