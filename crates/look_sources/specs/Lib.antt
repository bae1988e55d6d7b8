pub mod Binders
pub mod Lifts
pub mod Looked
