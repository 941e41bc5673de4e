pub mod Spelling
pub mod Reading
pub mod Framed
pub mod Records
pub mod Seen
pub mod Writing
pub mod Fronts
pub mod Begun
