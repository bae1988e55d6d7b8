pub mod Told
pub mod Greatest
