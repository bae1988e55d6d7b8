mod Halves
mod Waiters
mod Replaying
mod Viewing
mod Possible
