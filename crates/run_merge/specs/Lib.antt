pub mod InOrder
pub mod Laws
pub mod Merged
pub mod Stamps
