pub mod Alike
pub mod Digest
pub mod Member
pub mod Seen
