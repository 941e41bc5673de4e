pub mod Reading
pub mod Reader
pub mod Survey
pub mod Surveying
pub mod OwnedReading
pub mod Owned
