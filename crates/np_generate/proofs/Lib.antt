pub mod Lines
mod Examples
