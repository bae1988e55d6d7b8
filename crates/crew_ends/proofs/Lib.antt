pub mod First
pub mod Overs
