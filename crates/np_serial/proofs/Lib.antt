pub mod SerialEvents
pub mod Runs
