pub mod Quiet
pub mod Starts
