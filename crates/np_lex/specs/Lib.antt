pub mod Tokens
pub mod Refusals
pub mod Strings
pub mod Lexing
pub mod Spelling
