pub mod Input
pub mod Read
pub mod Refusal
