pub mod Lent
pub mod Over
