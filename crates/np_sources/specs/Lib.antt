pub mod Reaches
pub mod Kept
pub mod Laws
pub mod Makes
