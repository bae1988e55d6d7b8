pub mod Bools
pub mod Joining
pub mod Numbers
pub mod Numerals
pub mod Options
pub mod Reorderings
pub mod Results
pub mod Searching
mod Tells
pub mod Texts
pub mod Trees
