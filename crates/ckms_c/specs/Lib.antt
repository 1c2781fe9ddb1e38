pub mod Laws
pub mod Posts
pub mod Promises
