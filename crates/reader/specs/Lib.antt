pub mod Seen
pub mod Items
