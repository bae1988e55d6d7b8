pub mod Coming
pub mod Doing
pub mod Lines
pub mod Parts
pub mod Standings
