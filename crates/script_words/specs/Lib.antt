pub mod Channels
pub mod Numbers
pub mod Reasons
pub mod Switches
pub mod Words
