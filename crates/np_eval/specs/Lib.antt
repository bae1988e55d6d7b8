pub mod Bound
pub mod Errands
pub mod Eval
pub mod Fitting
pub mod FormParts
pub mod Forms
pub mod Levels
pub mod Pairs
