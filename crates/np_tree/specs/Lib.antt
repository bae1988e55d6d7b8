pub mod Erased
pub mod Grammar
pub mod Nodes
pub mod Sizes
