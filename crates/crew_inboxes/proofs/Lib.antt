pub mod Idle
pub mod Items
pub mod Links
pub mod Sitting
pub mod Taking
pub mod Weaving
