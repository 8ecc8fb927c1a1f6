pub mod Lists
pub mod Listing
pub mod Moves
pub mod Turns
