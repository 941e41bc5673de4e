pub mod Seen
pub mod Reading
pub mod Reads
pub mod Rows
pub mod Scopes
