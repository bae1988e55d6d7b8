pub mod NewViews
pub mod Roles
pub mod Waiting
