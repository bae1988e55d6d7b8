mod Once
pub mod Kept
pub mod Promises
pub mod Short
mod Going
