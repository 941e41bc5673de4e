pub mod Chain
pub mod ChainCode
pub mod Seen
