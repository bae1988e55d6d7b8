pub mod LentAgents
pub mod LentSeats
pub mod Queues
pub mod Rounds
pub mod Standings
pub mod deeds
