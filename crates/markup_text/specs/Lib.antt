pub mod Attributes
pub mod Escapes
pub mod Formed
pub mod Markup
