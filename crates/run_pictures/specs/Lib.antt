pub mod Arrows
pub mod Columns
pub mod Layouts
pub mod Parts
pub mod Posts
pub mod Rows
