pub mod Born
pub mod Conditions
pub mod Refused
pub mod Sent
