pub mod Commands
mod Examples
pub mod Walks
