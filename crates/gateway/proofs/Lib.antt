pub mod PoolMoves
pub mod Channels
pub mod Closed
pub mod Ways
pub mod Seizures
pub mod Cited
