-- Document 01's cases: what books and cases are made of, the tables, and that they hold.
pub mod Tables
pub mod Case
pub mod Refuted
pub mod Cases
pub mod Refusals
pub mod Forms
pub mod Order
pub mod Outcomes
pub mod Nights
pub mod Silver
pub mod LostPoints
pub mod Seats
pub mod Crowded
pub mod Hold
pub mod HoldCrowded
