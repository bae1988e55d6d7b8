pub mod Growing
pub mod Layouts
pub mod Lists
pub mod PartSteps
pub mod Rows
