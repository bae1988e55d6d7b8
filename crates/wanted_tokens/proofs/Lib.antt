pub mod Choices
pub mod Either
