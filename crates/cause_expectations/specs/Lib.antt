pub mod Covering
pub mod Expected
