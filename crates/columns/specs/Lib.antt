-- The two layouts of a book's customers, and what a call for columns answers.
pub mod Layouts
pub mod View
pub mod Shown
