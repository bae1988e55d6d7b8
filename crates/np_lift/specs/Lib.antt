pub mod Laws
pub mod Lift
pub mod Posts
pub mod CachedLaws
pub mod CachedLift
pub mod CachedPosts
