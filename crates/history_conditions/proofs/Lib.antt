pub mod Born
pub mod Common
pub mod Enabled
pub mod Held
pub mod Law
