pub mod Arguments
pub mod Formats
pub mod Modes
pub mod Plans
pub mod Laws
