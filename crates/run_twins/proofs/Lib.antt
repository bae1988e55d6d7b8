pub mod Counted
pub mod ReadOff
