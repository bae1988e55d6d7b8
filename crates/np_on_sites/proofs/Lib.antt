pub mod Kept
pub mod Safe
pub mod SourceRuns
