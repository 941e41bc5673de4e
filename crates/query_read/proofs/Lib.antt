pub mod Steps
pub mod Fields
pub mod Named
pub mod Sound
pub mod Spelled
pub mod Readings
