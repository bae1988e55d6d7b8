pub mod Choices
pub mod Draws
pub mod Held
pub mod InTurn
pub mod Lines
pub mod Made
pub mod Runs
pub mod Seeded
