pub mod Promises
pub mod Report
