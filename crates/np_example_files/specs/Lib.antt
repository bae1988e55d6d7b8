pub mod Numbers
pub mod Changes
pub mod Pieces
pub mod Examples
pub mod Reading
