pub mod Calls
pub mod Resting
pub mod Standing
