pub mod Logged
