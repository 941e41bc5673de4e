pub mod Places
pub mod Checks
pub mod Elements
