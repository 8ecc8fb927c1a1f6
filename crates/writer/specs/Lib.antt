pub mod Element
pub mod Values
