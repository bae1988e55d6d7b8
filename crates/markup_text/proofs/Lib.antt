pub mod Elements
pub mod Escaping
pub mod Formed
mod Tame
