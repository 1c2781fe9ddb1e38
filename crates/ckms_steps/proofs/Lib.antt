mod Openings
pub mod States
pub mod Takes
pub mod Tests
