pub mod Coupled
pub mod Laws
pub mod Letters
pub mod Mirrors
pub mod Roles
