pub mod Parts
pub mod Trees
pub mod Tables
pub mod Sizes
pub mod Programs
pub mod Codes
