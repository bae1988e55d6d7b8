pub mod Encoded
pub mod Translates
pub mod LowSound
pub mod Typed
pub mod Examples
