pub mod Outcomes
pub mod Naming
pub mod Kept
pub mod Resolved
pub mod Counting
pub mod Written
pub mod Sound
