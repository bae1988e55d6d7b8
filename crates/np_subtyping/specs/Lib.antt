pub mod Ordered
pub mod Sub
