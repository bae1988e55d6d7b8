pub mod Events
pub mod Holdings
pub mod Steps
pub mod Crossing
pub mod Steady
