pub mod Changed
pub mod Fronts
pub mod Kept
pub mod Looks
pub mod Resting
pub mod Rows
pub mod Ties
