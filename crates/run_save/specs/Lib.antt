pub mod Left
pub mod Notes
pub mod Ours
pub mod Travels
pub mod following
