pub mod Lifted
pub mod Posts
pub mod Examples
pub mod Parts
pub mod Standings
pub mod Table
pub mod WithoutMessengers
