pub mod Acting
pub mod Starts
pub mod Known
pub mod Sources
pub mod Values
