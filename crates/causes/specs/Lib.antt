pub mod Names
pub mod Mapping
pub mod Examples
