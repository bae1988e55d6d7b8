pub mod Channels
pub mod Fits
pub mod Laws
pub mod Low
pub mod Typed
