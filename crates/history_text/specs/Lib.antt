pub mod Spelling
pub mod Histories
pub mod Reading
pub mod Laws
