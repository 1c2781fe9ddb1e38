pub mod Gaps
pub mod Passes
pub mod Turns
