pub mod Views
pub mod Ends
pub mod Fresh
