pub mod Follows
pub mod Seeded
