pub mod Readings
pub mod Causes
