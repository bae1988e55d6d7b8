-- What may go to another thread: a site with all that stands there, a port that carries items, and a site beside its port.
pub mod Items
pub mod Standings
pub mod Sites
pub mod Seats
pub mod Ports
pub mod Values
pub mod Frames
pub mod Agents
pub mod Histories
pub mod Codes
pub mod Signs
