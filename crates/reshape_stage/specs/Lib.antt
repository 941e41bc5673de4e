pub mod Work
pub mod WorkCode
pub mod Unwound
pub mod Seen
pub mod Laws
