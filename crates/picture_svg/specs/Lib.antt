pub mod Casts
pub mod Elements
pub mod Pictures
pub mod Placed
pub mod Svg
