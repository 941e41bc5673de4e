pub mod Kinds
pub mod Leaves
pub mod Project
pub mod Written
pub mod Reading
pub mod Views
