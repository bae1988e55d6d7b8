pub mod Binders
pub mod Forms
pub mod LowForms
pub mod Resolved
