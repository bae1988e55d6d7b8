pub mod Causes
pub mod Bytes
pub mod Calls
pub mod MemSink
pub mod MemTexts
pub mod FileTexts
