pub mod Encoded
pub mod Related
pub mod Typed
pub mod Examples
