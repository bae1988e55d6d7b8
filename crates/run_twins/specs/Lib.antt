pub mod Laws
pub mod Messengers
pub mod Twins
