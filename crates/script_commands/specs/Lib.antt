pub mod Commands
pub mod Events
pub mod Openings
pub mod Parts
pub mod Shown
pub mod Timers
