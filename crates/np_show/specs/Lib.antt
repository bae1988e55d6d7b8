pub mod Shown
pub mod Again
