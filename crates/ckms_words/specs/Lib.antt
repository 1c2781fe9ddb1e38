pub mod Ckmses
pub mod Laws
pub mod Promises
