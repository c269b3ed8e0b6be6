-- The lock ladder: the rule, and what the call and the program say of a list; then rungs, and what the code keeps.
pub mod Ladder
pub mod Listing
pub mod Rungs
pub mod Climbing
