pub mod Walked
pub mod Sizes
