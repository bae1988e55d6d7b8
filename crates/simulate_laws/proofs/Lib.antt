pub mod Cached
pub mod Lifted
