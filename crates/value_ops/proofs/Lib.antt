pub mod CodePoints
pub mod Counts
pub mod Digits
pub mod Folded
pub mod Inside
pub mod Parts
pub mod Sizes
