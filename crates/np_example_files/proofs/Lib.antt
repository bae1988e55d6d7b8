pub mod Numerals
pub mod Places
pub mod Departures
pub mod Latest
pub mod Quotes
pub mod Texts
pub mod Endings
pub mod Exchanges
