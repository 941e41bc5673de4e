pub mod Periods
pub mod CivilFacts
pub mod IsoFacts
pub mod RangeFacts
