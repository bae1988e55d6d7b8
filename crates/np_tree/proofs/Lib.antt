pub mod Counted
pub mod Erases
pub mod Parts
pub mod Sized
