pub mod InOrder
pub mod Ranks
pub mod Values
