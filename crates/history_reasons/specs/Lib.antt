pub mod Counts
pub mod Unmet
