pub mod Examples
pub mod Rounded
pub mod Steps
