pub mod Ground
pub mod Readings
