-- The day watch: the table, the rule, and what the call and the program say of a list; then what the code keeps.
pub mod Table
pub mod Watch
pub mod Moves
pub mod Window
pub mod Filling
