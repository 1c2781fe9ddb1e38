pub mod Demand3
pub mod Floor
pub mod Promises
pub mod Readings
