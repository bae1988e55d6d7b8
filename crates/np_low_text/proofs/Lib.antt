pub mod Equations
pub mod Pieces
