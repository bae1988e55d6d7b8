pub mod Telling
pub mod Topics
