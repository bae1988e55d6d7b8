pub mod Clocks
pub mod Logs
