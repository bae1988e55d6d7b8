pub mod Counted
pub mod Formed
pub mod Written
