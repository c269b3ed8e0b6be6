-- Request [13] as definitions: the position limit, the seats that are cut back, and what a call answers.
pub mod Limit
pub mod Seats
pub mod Lines
pub mod Judge
pub mod Walk
pub mod Keyed
