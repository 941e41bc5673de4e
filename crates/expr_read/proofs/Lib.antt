pub mod Views
pub mod PathTexts
pub mod Steps
pub mod Spelled
pub mod Sound
pub mod Readings
