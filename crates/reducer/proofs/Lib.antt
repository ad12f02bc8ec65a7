mod Grounds
mod Performing
mod Seats
mod States
mod Stepping
mod Walks
