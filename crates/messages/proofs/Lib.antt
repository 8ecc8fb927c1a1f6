pub mod Passing
pub mod Places
pub mod RoundTrip
