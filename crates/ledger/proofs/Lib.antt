pub mod Least
pub mod Known
pub mod Adding
pub mod Histories
pub mod Lines
pub mod Lawful
pub mod Ending
