pub mod Numbers
pub mod Given
pub mod Words
pub mod Answers
pub mod App
pub mod Views
pub mod Own
pub mod Written
