pub mod Mean
pub mod Posts
pub mod Promises
pub mod Readings
