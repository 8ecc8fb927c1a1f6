pub mod Kept
pub mod Ending
