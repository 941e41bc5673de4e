pub mod Words
pub mod Written
pub mod Reading
pub mod Views
