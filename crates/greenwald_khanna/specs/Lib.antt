pub mod Answers
pub mod Posts
pub mod Promises
pub mod Refusals
