pub mod InReach
pub mod Promises
pub mod Questions
pub mod Reach
