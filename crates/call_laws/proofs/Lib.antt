pub mod FirstNamed
pub mod Sequel
pub mod Asked
pub mod Files
pub mod Commands
pub mod Told
pub mod CollectionFiles
pub mod Refused
