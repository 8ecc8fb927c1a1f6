pub mod Records
pub mod Types
pub mod Elements
pub mod Reading
pub mod Writing
pub mod Laws
pub mod Written
pub mod Shown
