pub mod Comings
pub mod LentLaws
pub mod Lines
pub mod Reading
pub mod Seatings
