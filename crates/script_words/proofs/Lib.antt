pub mod Numerals
pub mod Cuts
