pub mod InStep
pub mod Lanes
pub mod Lines
pub mod Shelves
