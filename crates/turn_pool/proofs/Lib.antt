pub mod Counts
pub mod Listings
pub mod Transfers
