pub mod Tuples
pub mod Types
pub mod Patterns
pub mod Expressions
pub mod Heads
pub mod Processes
pub mod Programs
