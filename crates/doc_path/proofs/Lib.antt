pub mod Steps
pub mod Queried
pub mod Changed
pub mod PathLaws
pub mod Keeping
pub mod KeepLaws
