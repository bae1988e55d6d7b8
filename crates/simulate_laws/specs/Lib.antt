pub mod Cached
pub mod Lifted
pub mod protocol
pub mod things
pub mod levels
pub mod simulation
