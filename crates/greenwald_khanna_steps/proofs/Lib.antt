pub mod Checks
pub mod Fresh
pub mod Halves
pub mod Lengths
pub mod LookUp
pub mod Openings
pub mod Sounds
