pub mod Found
pub mod Lines
pub mod Numbers
pub mod Parts
pub mod Plain
pub mod Written
