pub mod Answers
pub mod Posts
pub mod Runs
pub mod Laws
pub mod Readings
pub mod Promises
