pub mod NodeCounts
pub mod Growth
pub mod Layers
