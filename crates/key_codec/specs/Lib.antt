pub mod Keyed
pub mod Fits
pub mod Seen
