pub mod Ways
pub mod Seats
