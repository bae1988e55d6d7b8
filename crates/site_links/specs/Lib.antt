pub mod Fronts
pub mod Seats
pub mod Words
