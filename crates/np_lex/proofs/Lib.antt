pub mod Longest
pub mod Quotes
pub mod Readings
pub mod Steps
pub mod Once
pub mod Spelling
pub mod Goes
