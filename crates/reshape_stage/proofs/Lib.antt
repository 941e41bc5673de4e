pub mod Joined
pub mod Named
pub mod Elements
pub mod Whole
pub mod Made
