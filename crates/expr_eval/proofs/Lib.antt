pub mod Loops
pub mod Sizes
pub mod Bound
pub mod Far
pub mod Held
