pub mod Keeping
pub mod Taking
pub mod Standing
