pub mod Limits
pub mod Opening
pub mod Sound
pub mod Steps
