pub mod Tokens
pub mod Wishes
pub mod Moves
pub mod Keys
pub mod Records
