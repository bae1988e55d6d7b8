pub mod Dressed
pub mod Endings
