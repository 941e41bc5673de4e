pub mod Options
pub mod Each
pub mod Trees
pub mod SortKeys
pub mod NameTexts
pub mod Clashes
pub mod StepOrder
