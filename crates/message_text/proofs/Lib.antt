pub mod Longest
pub mod Written
