pub mod Calls
pub mod Resting
