pub mod AtPlace
pub mod FieldsPut
pub mod FirstPlaces
pub mod Gathered
pub mod Held
