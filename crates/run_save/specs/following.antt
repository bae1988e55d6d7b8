pub mod Following
pub mod Names
pub mod Parts
pub mod Stamps
pub mod TravelLaws
pub mod Shown
pub mod ByKind
pub mod Coming
