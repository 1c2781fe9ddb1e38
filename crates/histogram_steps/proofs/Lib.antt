pub mod Sounds
pub mod Keeping
pub mod Standings
pub mod Openings
