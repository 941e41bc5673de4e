pub mod Limits
pub mod Walk
