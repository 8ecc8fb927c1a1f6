pub mod Meanings
pub mod Names
pub mod Shown
