pub mod InSteps
pub mod LaneLaws
pub mod Withouts
