pub mod Heads
pub mod Marks
pub mod Pages
pub mod Parts
pub mod Sources
pub mod Tables
pub mod Views
