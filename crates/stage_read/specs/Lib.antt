pub mod Words
pub mod Kinds
pub mod Parts
pub mod Written
pub mod Reading
pub mod Commands
pub mod Faults
pub mod Answers
