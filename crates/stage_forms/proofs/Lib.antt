pub mod Walk
pub mod Values
pub mod Listed
pub mod Sound
pub mod Spelled
pub mod Readings
