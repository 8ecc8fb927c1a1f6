pub mod Plays
pub mod Shown
