pub mod Comparisons
pub mod Implies
pub mod Subs
