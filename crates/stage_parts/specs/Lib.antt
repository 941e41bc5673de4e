pub mod Values
pub mod Names
pub mod Paths
pub mod Each
pub mod Keys
